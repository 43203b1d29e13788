pub mod Forecasting
